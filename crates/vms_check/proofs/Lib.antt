pub mod CapacityLaws
pub mod CompareRows
pub mod Facade
pub mod PairLaws
pub mod SelfLaws
pub mod SetsFit
pub mod WholeLaws
