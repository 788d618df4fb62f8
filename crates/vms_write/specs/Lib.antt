pub mod Bytes
pub mod Calls
pub mod Fine
pub mod Judged
pub mod Steps
pub mod Writing
pub mod Wrote
