pub mod Losses
pub mod InnerSteps
pub mod Laws
