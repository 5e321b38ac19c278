pub mod Walk
pub mod PaidOut
pub mod Charged
pub mod Years
