pub mod Tiers
pub mod Rates
pub mod Rows
pub mod FlatRate
