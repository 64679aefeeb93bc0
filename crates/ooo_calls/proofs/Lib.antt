pub mod Lists
pub mod MarkLemmas
pub mod Ways
pub mod ClaimLemmas
