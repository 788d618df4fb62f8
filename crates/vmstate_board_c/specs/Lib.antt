pub mod Answers
pub mod Kinds
pub mod Seals
pub mod Streams
