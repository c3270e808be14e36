pub mod NameLaws
pub mod EntryLaws
