pub mod Bytes
pub mod View
pub mod Fits
pub mod Changes
pub mod Rests
pub mod Numbers
