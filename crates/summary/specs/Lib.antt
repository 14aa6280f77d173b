pub mod Packing
pub mod Words
pub mod Replies
pub mod Fragments
pub mod Joins
pub mod Answers
