pub mod SmallJob
