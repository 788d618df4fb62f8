pub mod HeadBack
pub mod HeadLemmas
pub mod LengthLaws
