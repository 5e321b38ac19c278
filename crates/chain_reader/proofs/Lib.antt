pub mod Ahead
pub mod Held
