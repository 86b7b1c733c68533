pub mod Given
pub mod Orders
pub mod Program
