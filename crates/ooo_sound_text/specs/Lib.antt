pub mod Modules
pub mod Right
pub mod Calls
pub mod Names
pub mod Parts
pub mod Waiting
pub mod Files
