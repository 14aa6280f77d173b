pub mod Reads
pub mod Feeds
