pub mod Probing
pub mod Losing
pub mod Whole
