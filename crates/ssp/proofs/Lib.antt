pub mod Contract
pub mod Flat
pub mod FlatSun
