pub mod Closes
pub mod Judging
