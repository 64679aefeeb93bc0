pub mod Acting
pub mod Lending
pub mod Running
pub mod Ports
pub mod Carrying
pub mod Jobs
pub mod Parts
pub mod Plainly
