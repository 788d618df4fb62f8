pub mod Facade
pub mod RowLaws
pub mod SetLaws
