pub mod LeftLemmas
mod TokenLemmas
