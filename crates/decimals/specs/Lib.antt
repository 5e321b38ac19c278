pub mod Decimals
pub mod InnerWritten
