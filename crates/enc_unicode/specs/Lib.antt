pub mod Nowhere
pub mod Utf8State
pub mod Utf16State
pub mod WroteUnits
pub mod Packing
pub mod Looks
pub mod Cuts
