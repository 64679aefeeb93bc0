pub mod Clashes
pub mod Kinds
pub mod Clashing
