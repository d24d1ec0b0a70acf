-- The definitions on kept items and on stitches.
pub mod Bodies
pub mod Search
pub mod Runs
pub mod Standing
pub mod Stitches
