pub mod HeldLaws
pub mod TurnLaws
pub mod TagLaws
pub mod FormLaws
pub mod PackLaws
pub mod EndingLaws
