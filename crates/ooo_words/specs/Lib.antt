pub mod Options
pub mod Numbers
pub mod Reading
pub mod Written
pub mod Parser
pub mod Refused
pub mod Limits
pub mod Laws
