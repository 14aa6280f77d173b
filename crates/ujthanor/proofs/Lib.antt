pub mod LentLaws
pub mod CallLaws
pub mod UniqueLaws
pub mod ReadBackLaws
