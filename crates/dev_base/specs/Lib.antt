pub mod Bits
pub mod Cells
pub mod Hooks
pub mod Levels
pub mod Rules
pub mod Tables
