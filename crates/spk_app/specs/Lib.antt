pub mod Applications
pub mod Laws
pub mod PlainViews
pub mod Sights
pub mod Weights
