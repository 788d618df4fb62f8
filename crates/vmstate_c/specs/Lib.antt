pub mod Border
pub mod Calls
pub mod Folders
pub mod Laws
pub mod Returned
pub mod Storing
