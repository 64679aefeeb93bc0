pub mod Meanings
pub mod Values
pub mod Times
pub mod Bodies
pub mod Bare
