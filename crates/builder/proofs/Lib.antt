-- The lemmas on putting bytes, and on a number set in place of another.
pub mod Measuring
pub mod Putting
