pub mod Repeats
pub mod Steps
pub mod Turns
pub mod Woven
pub mod Exclusive
pub mod Seats
pub mod Followed
