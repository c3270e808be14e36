pub mod Chosen
pub mod InterleaveController
pub mod RandomController
pub mod RandomOrderController
pub mod SwitchController
