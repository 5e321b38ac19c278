pub mod Answers
pub mod InnerRooms
