pub mod Example
pub mod Replies
pub mod Steps
pub mod Theorem
