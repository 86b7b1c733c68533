pub mod Classes
pub mod Orders
pub mod Units
pub mod Steps
