pub mod Rules
pub mod Splits
pub mod Steps
