pub mod FilledLaws
pub mod MatchLaws
pub mod RemovedLaws
pub mod SetLaws
pub mod TakingLaws
