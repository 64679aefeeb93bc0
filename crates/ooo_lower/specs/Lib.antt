pub mod Codes
pub mod Changes
pub mod Parts
pub mod Lowered
pub mod Tasks
pub mod Calls
