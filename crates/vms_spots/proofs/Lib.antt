pub mod BufferLaws
pub mod Facade
pub mod LayoutLaws
pub mod PutLaws
pub mod RunLaws
pub mod SpotLaws
pub mod SpotRows
