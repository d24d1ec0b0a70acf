-- The definitions on records.
pub mod Trace
pub mod Grammar
pub mod Items
pub mod Numbers
pub mod Buffers
pub mod Work
pub mod Stands
