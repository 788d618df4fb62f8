pub mod DeviceLemmas
pub mod Facade
pub mod JudgeLemmas
pub mod Naming
pub mod Printers
pub mod ReadLemmas
pub mod Takes
