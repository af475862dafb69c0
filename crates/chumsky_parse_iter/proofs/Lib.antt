pub mod PartsLemmas
pub mod FinishLemmas
pub mod WalkLemmas
pub mod NoneLemmas
pub mod StartLemmas
