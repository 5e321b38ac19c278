pub mod Numbers
pub mod ZeroBytes
pub mod ZeroWords
pub mod ByteRanges
pub mod Parts
pub mod Stores
pub mod Pieces
