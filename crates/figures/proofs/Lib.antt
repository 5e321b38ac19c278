pub mod Figures
pub mod Years
