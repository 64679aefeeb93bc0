pub mod Widths
pub mod Scenes
pub mod Extents
pub mod Blocks
pub mod Weighing
