pub mod TimerDelay
pub mod RoundStart
pub mod RoundCut
