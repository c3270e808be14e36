pub mod PathGrammar
pub mod PathMachine
pub mod PathGives
pub mod PathHolding
pub mod Selection
pub mod JsonViews
