pub mod Ram
