pub mod Facade
pub mod FoundLemmas
pub mod RoomLaws
