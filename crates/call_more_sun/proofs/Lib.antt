pub mod Asking
pub mod Contract
pub mod Fields
pub mod Orders
