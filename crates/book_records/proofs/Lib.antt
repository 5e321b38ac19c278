pub mod Heads
pub mod Users
pub mod Advances
pub mod Closings
pub mod Tiling
