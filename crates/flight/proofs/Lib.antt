pub mod Records
pub mod Gathered
pub mod Spaces
pub mod Flight
