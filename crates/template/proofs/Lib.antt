pub mod FileLaws
pub mod PartLaws
pub mod SoundLaws
pub mod ListLaws
pub mod AscendingLaws
pub mod GrammarLaws
pub mod ShapeLaws
