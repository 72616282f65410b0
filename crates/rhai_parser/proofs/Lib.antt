pub mod PromiseLemmas
pub mod FrameLemmas
pub mod NestLemmas
pub mod EntryLemmas
