pub mod CutLemmas
pub mod FloorLemmas
pub mod MessageLemmas
pub mod ReportLemmas
