pub mod Calls
pub mod Found
pub mod Raising
pub mod Room
pub mod Trying
