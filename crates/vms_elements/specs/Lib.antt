pub mod Elements
pub mod Parts
pub mod Lines
pub mod Laws
pub mod Entries
pub mod Reading
