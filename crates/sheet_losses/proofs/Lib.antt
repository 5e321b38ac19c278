pub mod Months
pub mod Years
pub mod Writing
pub mod Calls
pub mod Laws
