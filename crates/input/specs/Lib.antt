pub mod Input
pub mod LentLines
pub mod Lines
