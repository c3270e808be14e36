pub mod SectionEnds
pub mod HeaderFields
