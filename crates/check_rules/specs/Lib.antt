pub mod InnerFollows
