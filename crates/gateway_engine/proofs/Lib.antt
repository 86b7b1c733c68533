pub mod Sessions
pub mod Exits
pub mod OnDisk
pub mod Joining
