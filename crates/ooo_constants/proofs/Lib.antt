pub mod Lists
pub mod Decided
pub mod Formed
pub mod Told
pub mod Ticks
pub mod Blocks
pub mod Opened
