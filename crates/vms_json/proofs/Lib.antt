pub mod DueLaws
pub mod Facade
pub mod FrameLaws
pub mod KeyLaws
pub mod LaidLaws
