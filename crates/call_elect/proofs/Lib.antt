pub mod Contract
mod Electing
