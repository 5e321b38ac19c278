pub mod Rules
pub mod Orders
