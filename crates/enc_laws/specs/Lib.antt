pub mod Subparts
pub mod WellFormed
pub mod Resumed
pub mod Equations
pub mod IndexFiles
