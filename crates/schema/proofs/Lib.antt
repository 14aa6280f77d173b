pub mod SchemaLaws
pub mod TeachLaws
