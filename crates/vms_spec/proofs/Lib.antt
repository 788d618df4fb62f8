pub mod Examples
pub mod Facade
pub mod ListsAndNumbers
pub mod ShippedSets
pub mod Tables
pub mod WellFormedLaws
