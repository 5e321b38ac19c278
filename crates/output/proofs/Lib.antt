pub mod Joins
pub mod Digits
pub mod Short
