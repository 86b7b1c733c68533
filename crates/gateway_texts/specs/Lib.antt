pub mod Naming
pub mod Copies
pub mod Losses
pub mod Pieces
