pub mod Candidates
pub mod Computed
pub mod Counters
pub mod Laws
