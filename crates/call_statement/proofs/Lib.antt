pub mod Contract
mod Stating
