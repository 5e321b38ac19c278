pub mod Ledger
pub mod Accounting
