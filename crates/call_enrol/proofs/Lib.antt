pub mod Contract
mod Enrolling
