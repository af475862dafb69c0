pub mod Accepted
pub mod AcceptedLaws
pub mod Answer
pub use Rattle.chumsky_recursive.specs.Calls
pub mod Values
pub mod WantedMemory
