pub mod Carried
pub mod CellLaws
pub mod Fronts
pub mod Laws
pub mod Pairing
pub mod Positions
pub mod Segments
pub mod SubCells
