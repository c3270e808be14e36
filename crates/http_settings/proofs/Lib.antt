pub mod GiverLaws
pub mod FieldLaws
pub mod TextLaws
pub mod SettingsStages
pub mod TargetLaws
