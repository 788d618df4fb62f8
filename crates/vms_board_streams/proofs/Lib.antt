pub mod BoardStreams
pub mod Facade
pub mod FamilyBytes
pub mod FamilyLaws
