pub mod LentRows
pub mod Calls
