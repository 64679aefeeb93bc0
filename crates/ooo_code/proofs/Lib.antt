pub mod Sights
pub mod Expressing
pub mod Frames
pub mod Activations
pub mod Ending
pub mod Saying
