pub mod RequestGrammar
pub mod RequestReading
pub mod Mirroring
