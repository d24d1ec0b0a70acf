-- The definitions on what is heard along the runs of a story.
pub mod Heard
pub mod Clear
pub mod Fillings
pub mod Turns
pub mod Scopes
pub mod Brackets
pub mod Visits
pub mod Looks
pub mod Headings
pub mod Courses
pub mod Stories
