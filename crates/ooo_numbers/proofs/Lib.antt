pub mod Blocks
pub mod Formed
