pub mod Facade
pub mod Filled
pub mod Made
pub mod SameSpots
pub mod States
