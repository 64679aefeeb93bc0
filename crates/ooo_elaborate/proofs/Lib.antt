pub mod Behind
pub mod Blocks
