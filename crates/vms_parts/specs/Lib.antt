pub mod Capacities
pub mod Devices
pub mod Sizes
pub mod Texts
pub mod Views
