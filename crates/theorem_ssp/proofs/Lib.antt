pub mod Steps
pub mod Theorem
pub mod Archives
pub mod Raises
pub mod Measures
pub mod LeastAnswered
