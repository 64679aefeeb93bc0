pub mod Numbers
pub mod Searches
pub mod Closed
pub mod Beginnings
pub mod Edges
pub mod GraphErrors
