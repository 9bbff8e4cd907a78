pub mod Nearest
pub mod Rounded
pub mod Readings
