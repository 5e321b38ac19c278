pub mod Closing
pub mod Outcomes
pub mod Balances
pub mod Settlements
pub mod TwoYears
pub mod Charges
