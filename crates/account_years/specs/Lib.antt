pub mod History
pub mod InnerEntries
