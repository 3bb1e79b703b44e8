pub mod Lines
pub mod SiteFiles
pub mod SiteRows
pub mod Readers
