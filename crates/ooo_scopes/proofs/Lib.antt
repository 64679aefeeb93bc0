pub mod PlaceMaps
pub mod Bindings
pub mod InBlocks
pub mod Behind
