pub mod IsingSteps
pub mod KindSums
pub mod PottsSteps
pub mod Propensities
pub mod Proposing
pub mod Surroundings
pub mod ValueKinds
pub mod Values
