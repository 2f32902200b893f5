pub mod Search
pub mod Candidates
