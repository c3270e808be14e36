pub mod Levels
pub mod Plays
