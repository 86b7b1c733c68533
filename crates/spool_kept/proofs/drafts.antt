pub mod DraftBegun
pub mod DraftLists
pub mod DraftLonger
pub mod DraftSpent
pub mod Drafted
pub mod Forgotten
pub mod OfDeleted
pub mod OfUploads
