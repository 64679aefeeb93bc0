pub mod Breaches
pub mod Rows
pub mod Words
