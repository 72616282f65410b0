pub mod CaseKeyLemmas
pub mod DigestLemmas
pub mod CaseIndexLemmas
pub mod CaseSearchLemmas
pub mod SwitchLemmas
