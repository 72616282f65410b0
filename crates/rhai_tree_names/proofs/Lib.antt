pub mod BoolLemmas
pub mod NameLemmas
pub mod NotedLemmas
pub mod SetLemmas
