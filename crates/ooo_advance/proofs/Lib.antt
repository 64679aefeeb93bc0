pub mod OrderLemmas
pub mod LinkLemmas
pub mod SettledLemmas
pub mod TurnLemmas
pub mod SearchLemmas
pub mod TableLemmas
