pub mod OrderLaws
pub mod AscentLaws
pub mod RuleLaws
pub mod BodyLaws
pub mod EntryLaws
