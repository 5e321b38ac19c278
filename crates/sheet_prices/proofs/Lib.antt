pub mod PriceParts
pub mod Rows
pub mod SheetRows
