pub mod CommandGrammar
pub mod WordValues
pub mod Commands
pub mod Parser
pub mod ArgumentsShown
pub mod Spelling
