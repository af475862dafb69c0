pub mod Cut
pub mod Line
pub mod Message
pub mod Place
pub mod Printed
pub mod Report
pub mod Shown
pub mod Window
