pub mod Lists
pub mod Exprs
pub mod Simples
pub mod Stats
pub mod Modules
pub mod Units
