pub mod Bins
pub mod Choice
pub mod Groups
pub mod Kept
pub mod SumTrees
