pub mod Pieces
pub mod Tables
pub mod Columns
pub mod Writing
pub mod Calls
pub mod Restoring
pub mod RoundTrips
