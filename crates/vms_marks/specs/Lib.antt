pub mod Marks
pub mod Heads
pub mod Laws
