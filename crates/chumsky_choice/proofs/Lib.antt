pub mod NextLemmas
pub mod AmongLemmas
