pub mod Images
pub mod Kinds
pub mod Laws
pub mod Places
