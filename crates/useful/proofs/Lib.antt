pub mod SlotLaws
pub mod PassLaws
pub mod StepLaws
pub mod CloseLaws
pub mod UsefulLaws
