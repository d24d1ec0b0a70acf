-- The definitions on names, flows and stitches as searches see them.
pub mod Called
pub mod Counted
pub mod NameViews
pub mod Views
