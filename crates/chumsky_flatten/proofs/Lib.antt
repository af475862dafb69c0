pub mod IntoItemsLemmas
pub mod FlatteningLemmas
pub mod YesLemmas
pub mod ComparedLemmas
pub mod TogetherLemmas
