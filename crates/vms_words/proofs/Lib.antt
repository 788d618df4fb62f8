pub mod FirstLine
pub mod LineLaws
pub mod Lines
pub mod Spells
pub mod WordLaws
