pub mod Rings
pub mod Decompositions
pub mod Plans
pub mod Turns
pub mod Globals
pub mod SiteTexts
