mod Rows
pub mod DevicesRead
pub mod Facade
pub mod Following
pub mod Letters
pub mod MembersRead
pub mod One
pub mod Shapes
pub mod Shown
pub mod Streams
pub mod Texts
pub mod Walks
