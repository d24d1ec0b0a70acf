-- The definitions on story files.
pub mod Story
pub mod Plain
pub mod Fewer
pub mod Headings
pub mod Flows
pub mod Endings
pub mod File
pub mod Results
pub mod Whole
