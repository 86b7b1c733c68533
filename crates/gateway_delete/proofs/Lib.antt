mod Deletions
mod Recorded
mod Found
mod Does
