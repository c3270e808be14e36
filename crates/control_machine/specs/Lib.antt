pub mod Opened
pub mod Left
pub mod Load
pub mod Turns
pub mod Hearing
pub mod MachineCut
pub mod Answers
