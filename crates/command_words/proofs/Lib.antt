pub mod Stepwise
pub mod OptionLaws
pub mod ProgramLaws
pub mod Agreement
pub mod Numerals
pub mod ReadingLaws
pub mod SpellingLaws
pub mod RunLaws
