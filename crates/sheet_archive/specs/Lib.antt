pub mod Tables
pub mod Archive
pub mod InnerSteps
pub mod RoundTrips
