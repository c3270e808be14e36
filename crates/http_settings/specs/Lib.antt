pub mod RequestSettings
pub mod Targets
