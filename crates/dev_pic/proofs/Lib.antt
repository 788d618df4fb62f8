pub mod BitLaws
pub mod Facade
pub mod LineLaws
pub mod PutLemmas
pub mod SavedLaws
pub mod SheetLaws
pub mod StepLaws
pub mod WinnerLaws
