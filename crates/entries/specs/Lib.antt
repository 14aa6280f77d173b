pub mod Tests
pub mod Entries
