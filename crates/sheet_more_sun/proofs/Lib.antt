pub mod Answer
pub mod ChangedSheet
pub mod Least
pub mod Value
