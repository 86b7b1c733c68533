pub mod Faults
pub mod Looks
pub mod Opens
pub mod ReadBys
pub mod Refused
pub mod ValidViews
