pub mod Walk
pub mod Finish
