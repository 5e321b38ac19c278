pub mod Units
pub mod Limits
pub mod Derived
pub mod Folds
pub mod InnerWithin
