pub mod ShareLaws
pub mod GatherLaws
