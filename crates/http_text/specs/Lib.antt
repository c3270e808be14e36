pub mod SizeLines
pub mod ResponseHeads
pub mod ResponseGrammar
pub mod ResponseReading
pub mod RequestText
