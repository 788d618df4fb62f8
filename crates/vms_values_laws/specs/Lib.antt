pub mod Said
pub mod Taken
pub mod Laws
pub mod Rounds
