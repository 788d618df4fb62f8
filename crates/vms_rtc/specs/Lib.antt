pub mod Cells
pub mod Chip
pub mod Ends
pub mod Laws
pub mod Saved
pub mod Sound
