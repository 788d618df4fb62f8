pub mod CapacityLaws
pub mod Facade
pub mod ItemLaws
pub mod Items
pub mod SizeLaws
