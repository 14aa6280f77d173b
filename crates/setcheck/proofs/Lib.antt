pub mod InputLaws
pub mod LineLaws
