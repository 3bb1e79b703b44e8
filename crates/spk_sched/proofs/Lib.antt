pub mod CountLaws
pub mod DueLaws
pub mod OneRank
pub mod PlanLaws
pub mod Rings
pub mod SiteLengths
pub mod SweepLaws
