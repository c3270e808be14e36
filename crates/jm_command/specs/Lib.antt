pub mod Refusals
pub mod Printed
pub mod Parts
pub mod Command
pub mod Started
pub mod WovenTexts
