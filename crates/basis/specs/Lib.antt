pub mod Vocabulary
pub mod Factors
