pub mod Widths
pub mod Expressions
pub mod Simples
pub mod Shapes
pub mod Designs
pub mod Sizes
pub mod Segments
