pub mod Facade
pub mod SavedLaws
pub mod StepLaws
