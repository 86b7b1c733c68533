pub mod AnyDecoder
pub mod Errors
pub mod Sniff
pub mod Stage
pub mod TranscoderState
pub mod StateBytes
pub mod Progress
