pub mod SameView
pub mod Facts
pub mod commits
pub mod drafts
pub mod slots
