pub mod LineLaws
pub mod EndLaws
