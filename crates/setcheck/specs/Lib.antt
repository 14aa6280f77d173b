pub mod Inputs
pub mod Lines
