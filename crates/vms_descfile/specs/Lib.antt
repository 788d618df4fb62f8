pub mod Depths
pub mod Descs
pub mod Fields
pub mod Files
pub mod Fitting
pub mod Given
pub mod Tests
pub mod Written
