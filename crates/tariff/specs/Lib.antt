pub mod Table1
pub mod Tariff
pub mod InnerParts
