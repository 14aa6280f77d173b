pub mod PageLaws
pub mod UniqueLaws
pub mod FragmentLaws
