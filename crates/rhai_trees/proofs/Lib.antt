pub mod SignLemmas
pub mod OperatorLemmas
pub mod ChainLemmas
pub mod LinkedLemmas
pub mod StatementLemmas
pub mod StringLemmas
