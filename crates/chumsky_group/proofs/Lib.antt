pub mod NextLemmas
pub mod InTurnLemmas
pub mod RegroupedLemmas
