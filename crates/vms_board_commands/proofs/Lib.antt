pub mod DrillLaws
pub mod Facade
pub mod RunLemmas
pub mod ScriptCommands
