pub mod Lists
pub mod Fed
pub mod Queue
pub mod Charged
