pub mod Exchanges
pub mod SamplerPipeline
pub mod PipelineCut
