pub mod ChosenLaws
pub mod OrderLaws
pub mod NameLaws
pub mod SwitchLaws
