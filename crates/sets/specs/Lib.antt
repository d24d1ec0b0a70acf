-- The definitions on sets of names.
pub mod Hashes
pub mod Sets
pub mod Known
pub mod Members
