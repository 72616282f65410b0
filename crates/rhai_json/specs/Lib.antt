pub mod Errors
pub mod Fields
pub mod Left
pub mod NameLists
pub mod Reports
pub mod TokenLists
pub mod Trees
