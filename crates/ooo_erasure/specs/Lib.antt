pub mod Exprs
pub mod Parts
pub mod Stats
pub mod Modules
pub mod Units
pub mod Laws
