pub mod Place
pub mod Shape
pub mod FirstFault
pub mod TreeSeen
