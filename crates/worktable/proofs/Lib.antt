pub mod DigitLaws
pub mod PackedLaws
pub mod RowLaws
pub mod StoreLaws
