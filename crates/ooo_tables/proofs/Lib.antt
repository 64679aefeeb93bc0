pub mod Ordered
pub mod RowLemmas
pub mod GraphLemmas
pub mod AccessLemmas
pub mod ClashLemmas
pub mod DelayLemmas
pub mod OneLemmas
pub mod TextLemmas
