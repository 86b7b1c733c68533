pub mod Numbers
pub mod Texts
pub mod Drafts
pub mod Rule
pub mod Needs
pub mod Examples
