pub mod Eight
pub mod Laws
