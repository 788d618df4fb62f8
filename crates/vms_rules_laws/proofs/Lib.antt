pub mod Eight
pub mod Facade
pub mod Fields
pub mod Tests
