pub mod Edges
pub mod ErasedLists
pub mod ErasedMembers
pub mod ErasedUnits
pub mod Least
pub mod RunningLemmas
