pub mod ElectionAndAdvances
pub mod InnerShares
