pub mod Causes
pub mod Effects
pub mod Host
pub mod Memory
pub mod Outside
pub mod States
