pub mod Orders
pub mod Walks
pub mod Rows
pub mod Links
pub mod Settled
pub mod Turns
