pub mod Files
pub mod Under
