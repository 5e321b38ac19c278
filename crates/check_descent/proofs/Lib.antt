pub mod Steps
pub mod Users
pub mod Entries
pub mod Pointers
pub mod Sound
