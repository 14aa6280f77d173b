pub mod BitLaws
pub mod TestLaws
