pub mod LayLaws
pub mod FileLaws
pub mod MoveLaws
pub mod HoldLaws
pub mod AscendLaws
pub mod UniqueLaws
pub mod RowLaws
