pub mod Counted
pub mod Tallies
