pub mod Breaches
pub mod Plans
pub mod Reach
pub mod States
pub mod Members
pub mod Setups
pub mod Instances
pub mod Texts
