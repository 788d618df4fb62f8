pub mod Boards
pub mod Due
pub mod Search
