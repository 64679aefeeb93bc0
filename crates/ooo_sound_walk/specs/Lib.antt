pub mod Parts
pub mod Names
pub mod Clocks
pub mod Reached
