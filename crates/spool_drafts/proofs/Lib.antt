pub mod Effects
pub mod Lengths
pub mod TranscoderStates
pub mod Patches
pub mod Appends
pub mod Begins
pub mod Ends
pub mod Stays
