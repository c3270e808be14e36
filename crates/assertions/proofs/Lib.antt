pub mod ByPatternsLaws
pub mod TogetherLaws
