pub mod EndLemmas
pub mod AnyLemmas
pub mod JustLemmas
pub mod OneOfLemmas
pub mod SelectLemmas
pub mod CustomLemmas
