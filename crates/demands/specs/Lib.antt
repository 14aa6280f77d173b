pub mod First
pub mod Second
pub mod Third
pub mod Long
pub mod Calls
pub mod Cases
