pub mod Rights
pub mod Names
pub mod Callers
pub mod Modules
pub mod Units
