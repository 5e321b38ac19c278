pub mod Contract
mod Charging
