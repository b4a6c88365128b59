pub mod Vocabulary
pub mod Candidates
