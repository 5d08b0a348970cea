pub mod Across
pub mod Answers
pub mod Gaps
