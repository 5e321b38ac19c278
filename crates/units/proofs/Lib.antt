pub mod Products
pub mod Bools
pub mod Ranges
pub mod Folds
pub mod Filled
pub mod Derived
