pub mod AskLaws
pub mod Clean
pub mod EvalLaws
pub mod Facade
pub mod FormLaws
pub mod PathLaws
