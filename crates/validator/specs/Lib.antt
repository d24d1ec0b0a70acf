-- The definitions on the check.
pub mod Results
pub mod Answers
pub mod Check
pub mod Checked
pub mod Demand
