pub mod Drafts
pub mod Reading
pub mod TextOn
pub mod Texts
pub mod Written
