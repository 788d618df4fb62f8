pub mod Facade
pub mod PortLaws
pub mod QuickLaws
pub mod QuietLaws
pub mod RestoredLaws
pub mod SavedLaws
pub mod SoundLaws
pub mod WireLaws
