pub mod Passes
pub mod LoopLaws
pub mod IfLaws
pub mod WhileLaws
pub mod EachLaws
