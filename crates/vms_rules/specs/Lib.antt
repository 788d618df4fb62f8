pub mod Capacities
pub mod Judged
pub mod NameSets
pub mod Naming
pub mod Walks
