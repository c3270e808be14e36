pub mod Generated
pub mod Raws
