pub mod News
pub mod Walks
