pub mod TrialLaws
pub mod CutLaws
