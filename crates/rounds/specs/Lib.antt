pub mod Replies
pub mod Checks
pub mod Answers
pub mod Walking
