pub mod Steps
pub mod Worth
pub mod Sums
pub mod Lines
pub mod LinesLaws
pub mod TakenLaws
