pub mod DueLaws
pub mod Facade
pub mod PortLaws
