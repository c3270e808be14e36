pub mod Totals
pub mod Sums
pub mod Bounds
pub mod Folding
