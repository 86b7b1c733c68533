pub mod IndexFiles
pub mod Reports
pub mod Surveying
pub mod Digests
pub mod Found
pub mod Folders
pub mod Memory
