pub mod Bytes
pub mod Requests
pub mod Reports
pub mod Summaries
pub mod Answers
pub mod Boards
pub mod Writing
