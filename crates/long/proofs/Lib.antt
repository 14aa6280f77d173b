pub mod SplitLaws
pub mod NumberLaws
pub mod RestLaws
pub mod PartLaws
pub mod StringLaws
pub mod ListedLaws
pub mod CountLaws
pub mod BelowLaws
pub mod HoldLaws
mod InsertLaws
pub mod DistinctLaws
pub mod ExactLaws
pub mod SameLaws
pub mod UniqueLaws
pub mod OrderedLaws
pub mod WrittenLaws
pub mod TurnLaws
pub mod AnswerLaws
