pub mod Blanks
pub mod Formatting
pub mod Upgrading
pub mod Raising
pub mod Reports
