pub mod Facade
pub mod Going
pub mod Spots
pub mod Walking
