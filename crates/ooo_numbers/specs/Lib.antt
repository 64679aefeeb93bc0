pub mod Names
pub mod Exprs
pub mod Simples
pub mod Stats
