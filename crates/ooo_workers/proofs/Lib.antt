mod Begun
mod Jobs
mod Keeps
mod Gather
mod Joins
mod Turns
mod Calls
mod Crossing
