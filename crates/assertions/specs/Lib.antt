pub mod ByPatterns
pub mod Judging
