pub mod InnerSteps
