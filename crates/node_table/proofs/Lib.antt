pub mod AfterLists
pub mod HangingLists
pub mod LinkLaws
pub mod Numbering
pub mod PackageLaws
