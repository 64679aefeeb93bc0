pub mod SetLemmas
pub mod CalledLemmas
pub mod ClashingLemmas
