pub mod Listing
pub mod InnerWritten
