pub mod BufferLaws
pub mod LineParts
pub mod OnePiece
pub mod SiteLines
pub mod SiteRoom
