pub mod ConstructReaders
pub mod SwitchLemmas
