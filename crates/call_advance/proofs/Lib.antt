pub mod Advancing
pub mod Contract
pub mod Runs
