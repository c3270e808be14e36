pub mod RunProps
pub mod Numbers
pub mod FunctionState
pub mod Functions
pub mod Expansion
pub mod Came
pub mod Stops
pub mod Texts
