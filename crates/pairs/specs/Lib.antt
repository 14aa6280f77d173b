pub mod Books
pub mod Slots
pub mod Turns
