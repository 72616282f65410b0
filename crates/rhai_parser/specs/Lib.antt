pub mod Starts
pub mod Nesting
pub mod Scripts
pub mod EntryLaws
