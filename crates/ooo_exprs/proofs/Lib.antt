pub mod Turns
pub mod Typed
