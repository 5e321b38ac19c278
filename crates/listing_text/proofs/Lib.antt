pub mod Lines
pub mod Fields
pub mod Walk
pub mod Texts
pub mod Example
