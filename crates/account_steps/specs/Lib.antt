pub mod Closing
pub mod Account
pub mod Charges
