pub mod Counting
pub mod Judging
pub mod Numbers
pub mod Outcomes
pub mod Texts
pub mod Ticking
