pub mod Answers
pub mod Changes
pub mod Handles
pub mod Json
pub mod Options
pub mod Statuses
