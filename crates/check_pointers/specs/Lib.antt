pub mod InnerPointers
