pub mod Building
pub mod ElementLinks
pub mod KeptPackages
