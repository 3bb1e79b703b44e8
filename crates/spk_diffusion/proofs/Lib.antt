pub mod Listing
pub mod Summing
pub mod Viewing
