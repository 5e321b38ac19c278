pub mod YearsValues
pub mod InnerArrays
pub mod Bounds
