pub mod Hits
pub mod Prefixes
pub mod Written
pub mod Made
pub mod Pairs
pub mod Tails
pub mod Walks
pub mod Rows
