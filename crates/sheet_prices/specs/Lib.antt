pub mod ValueAndCost
pub mod InnerArrays
