pub mod Vars
pub mod Beside
