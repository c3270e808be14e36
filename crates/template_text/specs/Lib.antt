pub mod Pieces
pub mod TemplateGrammar
pub mod Scan
pub mod Code
pub mod View
pub mod Falls
pub mod Builders
