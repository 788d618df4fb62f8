pub mod CallLaws
pub mod EdgeLaws
pub mod Facade
pub mod LatchLaws
pub mod Marks
pub mod SavedLaws
pub mod SoundLaws
