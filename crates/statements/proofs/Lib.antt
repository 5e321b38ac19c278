pub mod Joins
pub mod Toward
pub mod Walk
