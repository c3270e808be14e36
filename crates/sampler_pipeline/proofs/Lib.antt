pub mod ExchangeLaws
pub mod StageLaws
pub mod AnswerLaws
pub mod PipelineStages
