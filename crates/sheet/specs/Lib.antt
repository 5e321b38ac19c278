pub mod YearSheet
pub mod Objections
