pub mod SheetRates
pub mod SheetEnergies
pub mod Bounds
