pub mod Access
pub mod Notices
pub mod Told
pub mod Calls
