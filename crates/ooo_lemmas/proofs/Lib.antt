pub mod Each
pub mod Contained
pub mod Placed
pub mod Ascending
pub mod Counting
