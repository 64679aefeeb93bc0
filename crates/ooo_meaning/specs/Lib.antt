pub mod World
pub mod Sequence
pub mod Runs
pub mod Laws
pub mod Rows
pub mod Endings
