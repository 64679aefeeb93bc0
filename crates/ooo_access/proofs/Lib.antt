pub mod Tellings
pub mod NumberLemmas
pub mod Orders
pub mod Calling
pub mod Meanings
pub mod PartLemmas
pub mod Gathered
