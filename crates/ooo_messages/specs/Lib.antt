pub mod Reasons
pub mod Breaches
