pub mod CommitEnded
pub mod CommitFits
pub mod CommitHead
pub mod CommitRefusals
pub mod CommitSpent
pub mod CommitTexts
pub mod Declared
pub mod FoundFor
