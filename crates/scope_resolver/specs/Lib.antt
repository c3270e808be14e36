pub mod Ancestry
pub mod Scoping
