pub mod Filling
pub mod Above
pub mod LineReading
pub mod Reading
pub mod ReadCalls
pub mod LineWriting
pub mod SheetAbove
pub mod WriteCalls
