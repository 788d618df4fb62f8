pub mod Clock
pub mod Fields
pub mod Pic
pub mod Pit
pub mod Serial
