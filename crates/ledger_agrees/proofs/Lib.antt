pub mod Statements
pub mod Ledgers
pub mod Lists
pub mod Undamaged
pub mod Theorem
pub mod Queue
