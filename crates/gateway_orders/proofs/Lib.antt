pub mod Rows
pub mod Numbers
pub mod Simple
pub mod Adding
pub mod Free
pub mod Entered
