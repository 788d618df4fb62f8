pub mod Laws
pub mod Unruled
