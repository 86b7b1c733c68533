pub mod Planning
pub mod Folders
pub mod Exporting
pub mod System
pub mod Refused
pub mod Places
pub mod Command
pub mod Memory
