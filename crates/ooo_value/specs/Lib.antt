pub mod Kinds
pub mod Values
pub mod Operators
pub mod Pairs
pub mod Faults
pub mod ValueText
pub mod FaultNames
pub mod Times
