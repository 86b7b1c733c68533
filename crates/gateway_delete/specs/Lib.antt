pub mod Deleting
pub mod Deleted
