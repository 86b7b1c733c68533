pub mod Transcoding
pub mod Texts
