pub mod Bindings
pub mod Functions
pub mod Holding
pub mod Ends
pub mod Holders
pub mod Processes
pub mod Elaborated
