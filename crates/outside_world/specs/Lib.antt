pub mod Told
pub mod Scripted
pub mod Worlds
pub mod Tickers
