pub mod Amounts
pub mod Window
