pub mod Cellwise
pub mod Joining
pub mod Ending
