pub mod Entries
pub mod Numbered
pub mod Ordered
pub mod Unlisted
