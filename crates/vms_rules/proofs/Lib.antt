pub mod Facade
pub mod NameLaws
pub mod WalkLaws
