pub mod Found
pub mod Histories
pub mod Kept
pub mod Steps
