pub mod Locals
pub mod Expressions
pub mod Items
pub mod Activations
pub mod Touches
pub mod Runs
pub mod Kinds
pub mod Sound
