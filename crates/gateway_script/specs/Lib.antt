pub mod Faults
pub mod Script
pub mod Digits
pub mod Inputs
pub mod Lines
pub mod Shown
pub mod Runs
pub mod Outputs
