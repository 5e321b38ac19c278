pub mod Standing
pub mod Advances
pub mod Integers
pub mod Kept
pub mod Years
