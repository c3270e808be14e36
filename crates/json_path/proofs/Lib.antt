pub mod ParserLaws
pub mod Reading
pub mod Completeness
pub mod Soundness
pub mod ReadLaws
pub mod SelectionLaws
