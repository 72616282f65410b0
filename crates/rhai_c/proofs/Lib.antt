-- Lemmas.
pub mod Examples
pub mod Holds
pub mod Replies
