pub mod ClockImages
pub mod Facade
