pub mod Facade
pub mod FineReady
pub mod Sections
