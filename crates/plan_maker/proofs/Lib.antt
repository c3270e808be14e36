pub mod Answered
pub mod LoopLaws
pub mod Digits
pub mod OwnLaws
pub mod TreeLaws
pub mod CountLaws
pub mod PlanLaws
