pub mod Arms
pub mod Digests
pub mod CaseKeys
pub mod Switches
