pub mod Counted
pub mod Failing
pub mod Reported
pub mod Ticked
pub mod ReportsWritten
