pub mod Cycles
pub mod Marks
pub mod Claims
pub mod Answers
