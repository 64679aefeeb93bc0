pub mod FunctionLists
pub mod FunctionNotes
pub mod Zipped
