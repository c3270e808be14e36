pub mod PartLaws
pub mod TransactionLaws
pub mod BeginningLaws
pub mod CutLaws
pub mod ThreadLaws
