pub mod ControllerRounds
pub mod SimpleController
pub mod OnceOnlyController
pub mod LoopController
pub mod IfController
pub mod WhileController
pub mod ForEachController
