pub mod Numerals
pub mod CameLaws
pub mod LaterLaws
pub mod Expanding
pub mod StopLaws
