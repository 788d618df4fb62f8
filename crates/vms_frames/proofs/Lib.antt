pub mod Facade
pub mod HeadLemmas
pub mod ReadsFirst
pub mod ReadsUnits
