pub mod Grammar
pub mod Lines
pub mod Names
pub mod Refusal
pub mod Script
pub mod Trace
pub mod Views
pub mod Words
