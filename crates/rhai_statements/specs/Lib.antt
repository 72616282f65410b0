pub mod RareStatements
pub mod Readers
