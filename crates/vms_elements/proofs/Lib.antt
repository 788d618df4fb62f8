mod Rows
pub mod Facade
pub mod LinesOf
pub mod Members
pub mod PathsOf
pub mod Walk
