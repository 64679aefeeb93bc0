pub mod Loops
pub mod Parts
pub mod Spelled
pub use Rattle.ooo_exprs.specs.Steps
