pub mod Blocks
pub mod Elses
