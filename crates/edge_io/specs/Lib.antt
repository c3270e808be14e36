pub mod Edges
pub mod Memory
pub mod Adapter
pub mod ReadAll
