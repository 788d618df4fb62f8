pub mod BoardReady
pub mod Carried
pub mod Facade
pub mod NormalCells
pub mod PitSaved
pub mod ReadyOf
pub mod SerialSaved
pub mod ShippedDevices
