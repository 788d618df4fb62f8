pub mod Facade
pub mod Onward
pub mod Parts
pub mod WellFormed
