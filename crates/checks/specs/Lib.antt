-- The definitions on what is judged at one item.
pub mod Judged
pub mod Context
