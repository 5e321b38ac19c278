pub mod Counted
pub mod OwnRules
pub mod Descended
pub mod Following
