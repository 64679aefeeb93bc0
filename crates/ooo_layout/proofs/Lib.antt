mod Joined
mod Opened
mod Shaped
mod Measured
mod Sized
mod Owing
