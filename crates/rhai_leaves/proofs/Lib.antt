pub mod ErrorLemmas
pub mod MapKeyLemmas
pub mod OperatorLemmas
