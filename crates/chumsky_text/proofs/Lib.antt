pub mod LeadingLemmas
pub mod RunLemmas
