pub mod Erasing
pub mod Modules
pub mod Processes
pub mod Running
pub mod Told
pub mod Units
