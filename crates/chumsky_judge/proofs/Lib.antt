pub mod JudgeLemmas
pub mod NotLemmas
pub mod VettedLemmas
pub mod AndIsLemmas
pub mod MapErrLemmas
pub mod ValidatedLemmas
pub mod BlindLemmas
