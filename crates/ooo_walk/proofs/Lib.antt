pub mod Instances
pub mod Levels
pub mod Marked
pub mod Order
