-- The definitions of a file that is put together in a lent buffer.
pub mod Building
pub mod Kinds
