pub mod InnerWalk
