pub mod FaultCounts
pub mod Run
pub mod Outside
pub mod SumTotals
