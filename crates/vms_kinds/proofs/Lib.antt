pub mod CodeLemmas
pub mod ByteLemmas
