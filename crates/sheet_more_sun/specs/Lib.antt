pub mod MoreSun
pub mod Laws
pub mod InnerSteps
