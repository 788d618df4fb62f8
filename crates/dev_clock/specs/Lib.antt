pub mod Laws
pub mod Saved
pub mod SavedLaws
pub mod SheetNumbers
pub mod Sound
pub mod State
pub mod Step
pub mod View
