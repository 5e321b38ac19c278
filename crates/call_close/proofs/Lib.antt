pub mod Closing
pub mod Contract
pub mod Entries
