pub mod Causes
pub mod Conversions
pub mod Divided
pub mod Exact
pub mod Operands
pub mod QuotientLaw
pub mod ResultKinds
pub mod Wraps
