pub mod Values
pub mod Walked
pub mod Parts
pub mod Names
pub mod Clocks
pub mod Closed
