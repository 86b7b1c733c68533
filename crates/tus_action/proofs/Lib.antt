pub mod Answered
pub mod Pieces
pub mod Texts
