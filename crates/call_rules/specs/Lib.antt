pub mod Rules
pub mod Changes
pub mod Refusals
pub mod Calls
pub mod Laws
