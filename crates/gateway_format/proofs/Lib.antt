mod Blank
mod Upgraded
mod Raised
mod Reasons
