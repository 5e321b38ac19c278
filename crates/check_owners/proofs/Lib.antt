pub mod Owned
pub mod Lists
