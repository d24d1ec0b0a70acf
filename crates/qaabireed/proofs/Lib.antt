-- Why each number of a result has 32 bits, and what is written.
pub mod Stories
pub mod Breaches
pub mod Narrow
pub mod Lookups
pub mod Written
pub mod Examples
