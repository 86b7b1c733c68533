pub mod Counting
pub mod Fed
pub mod Scripts
pub mod Told
pub mod Trying
