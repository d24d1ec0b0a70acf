-- The laws on lines.
pub mod Digits
pub mod Reported
pub mod Examples
