pub mod LineShape
pub mod Texts
pub mod Fills
pub mod ReadsBack
