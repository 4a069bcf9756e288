pub mod Flags
pub mod Fitting
pub mod Turns
pub mod Laws
