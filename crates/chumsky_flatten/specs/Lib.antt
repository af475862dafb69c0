pub mod Collections
pub mod IntoItems
pub mod IntoItemsLaws
pub mod Flattening
pub mod FlatteningSteps
pub mod FlatteningLaws
pub mod Compared
pub mod Running
