pub mod Facade
pub mod GrammarLaws
pub mod NumberLemmas
pub mod ScriptLemmas
