pub mod PartLemmas
pub mod RoundsLemmas
pub mod TurnsLemmas
pub mod ListLemmas
