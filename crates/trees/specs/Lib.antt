pub mod Trees
pub mod Events
pub mod Verdict
pub mod Results
