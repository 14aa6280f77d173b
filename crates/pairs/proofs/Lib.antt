pub mod LoadLaws
pub mod NoteLaws
pub mod FormsLaws
pub mod TurnLaws
