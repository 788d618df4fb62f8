pub mod AlikeLemmas
mod Rows
pub mod Facade
pub mod Fits
pub mod Lengths
pub mod OfElements
pub mod Plain
pub mod ReadBack
pub mod Trees
