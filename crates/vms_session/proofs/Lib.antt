pub mod CourseLemmas
pub mod EndLaws
pub mod Facade
pub mod SoundLaws
