pub mod Closings
pub mod InnerBooked
