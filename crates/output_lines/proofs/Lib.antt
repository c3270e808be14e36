pub mod Labels
pub mod NumberRows
pub mod Middles
