pub mod Schema
pub mod Relation
pub mod Operations
