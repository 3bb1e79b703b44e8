pub mod DrawLaws
pub mod Energies
pub mod Ising
pub mod IsingLaws
pub mod Potts
pub mod PottsLaws
pub mod SightLaws
pub mod Trials
