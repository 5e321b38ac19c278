pub mod Places
pub mod Cells
pub mod ByteRanges
