pub mod Exported
pub mod Archives
pub mod Raises
pub mod Measures
pub mod MoreSun
