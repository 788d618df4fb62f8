pub mod ClockSets
pub mod Numbered
pub mod Rows
