pub mod FeedLemmas
pub mod Full
pub mod LentFound
pub mod LinesFound
pub mod PassedOver
