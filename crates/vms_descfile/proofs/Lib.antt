mod Rows
pub mod DescBack
pub mod Facade
pub mod FieldBack
pub mod FileLaws
pub mod ObjectLaws
pub mod SetLaws
pub mod ShownLaws
pub mod WalkLaws
