pub mod Fronts
pub mod Holds
pub mod Cuts
pub mod Choices
pub mod Reaching
