pub mod Args
pub mod Bodies
pub mod Constructors
pub mod Declarations
pub mod Known
pub mod Members
pub mod Turns
