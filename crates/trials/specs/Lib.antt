pub mod Tried
pub mod CutShort
pub mod Pairs
