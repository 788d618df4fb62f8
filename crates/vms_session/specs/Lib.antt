pub mod Events
pub mod Laws
pub mod Lines
pub mod Parts
pub mod Playing
pub mod Session
pub mod Streams
