pub mod Layers
pub mod Errors
pub mod Laws
