pub mod Diffusion
pub mod HopFacts
pub mod Laws
pub mod Locality
