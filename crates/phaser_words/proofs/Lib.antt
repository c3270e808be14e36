pub mod Counts
pub mod Stopping
pub mod Allowed
pub mod Spaced
pub mod SlotSteps
