pub mod Parses
pub mod CommandLimits
mod Orders
