pub mod Contract
pub mod FreshBooks
pub mod Homes
pub mod SeenNumbers
pub mod Turns
