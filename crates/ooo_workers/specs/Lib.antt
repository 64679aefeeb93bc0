pub mod Boards
pub mod Rule
pub mod Passes
