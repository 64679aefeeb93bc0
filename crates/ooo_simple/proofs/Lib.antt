pub mod Awaits
pub mod Listed
