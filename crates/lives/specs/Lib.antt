pub mod History
pub mod Intervals
pub mod Answers
pub mod Lives
pub mod Promises
