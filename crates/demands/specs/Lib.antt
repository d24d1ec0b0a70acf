-- What is claimed of the callable functions.
pub mod Refusals
pub mod Demand1
