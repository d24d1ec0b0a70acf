-- The definitions on the library's calls.
pub mod Numbers
pub mod Calls
