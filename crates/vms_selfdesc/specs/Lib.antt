pub mod Alike
pub mod Drafts
pub mod Entries
pub mod Tree
pub mod Needs
pub mod Listing
pub mod Laws
pub mod Calls
