pub mod Coordinates
pub mod NearValues
pub mod Whole
