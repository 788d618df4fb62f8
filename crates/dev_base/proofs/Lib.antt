pub mod CellLaws
pub mod RuleLaws
