pub mod Stands
pub mod Folds
pub mod RecorderSeats
