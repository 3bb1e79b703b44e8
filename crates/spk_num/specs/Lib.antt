pub mod Decimal
pub mod Draws
pub mod Logarithm
pub mod Names
pub mod Results
pub mod Weights
pub mod Whole
