pub mod Dropping
pub mod Frames
pub mod Listed
pub mod Places
pub mod Weighing
