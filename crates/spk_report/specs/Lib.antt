pub mod Output
pub mod Statistics
pub mod Energies
pub mod Items
pub mod Snapshots
pub mod Pieces
pub mod Buffers
