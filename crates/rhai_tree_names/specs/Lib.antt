pub mod FnNames
pub mod Noted
