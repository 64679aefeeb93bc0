pub mod Accesses
pub mod Tables
pub mod Text
