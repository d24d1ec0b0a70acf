-- The definitions on targets.
pub mod Ends
pub mod Slots
pub mod Put
pub mod Entries
