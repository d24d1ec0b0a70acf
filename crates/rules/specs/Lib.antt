-- The definitions on rules, steps and verdict.
pub mod Rules
pub mod Steps
pub mod Meaning
pub mod Placed
pub mod Plain
pub mod Alike
pub mod Files
pub mod Reader
pub mod Sorts
