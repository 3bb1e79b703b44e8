pub mod Noted
pub mod Reached
pub mod Ready
pub mod Sectors
pub mod Slots
