pub mod CursorStep
pub mod RunningChildren
pub mod Numeral
