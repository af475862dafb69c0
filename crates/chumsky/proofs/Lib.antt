pub mod AnswerLemmas
mod Refusing
mod Taking
mod AcceptedLemmas
mod TriedInLemmas
