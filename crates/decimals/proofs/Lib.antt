pub mod Written
pub mod Digits
pub mod Fields
