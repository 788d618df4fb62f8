pub mod Ahead
pub mod Facade
pub mod Filling
pub mod Gathering
pub mod PutLemmas
pub mod ReadingLemmas
pub mod ShelvingLemmas
pub mod WritingLemmas
