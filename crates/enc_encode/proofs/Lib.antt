pub mod Growth
pub mod Helds
pub mod Final
pub mod Codes
pub mod Runs
mod Rows
mod Prefixes
mod Singles
mod Given
mod RunPrefixes
mod Twos
mod Threes
mod Puts
mod Lanes
mod LetterRuns
mod Digits
