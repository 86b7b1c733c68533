pub mod Effect
pub mod Progress
pub mod Drafts
