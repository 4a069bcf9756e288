pub mod Floats
pub mod Naming
pub mod Spaces
pub mod Lengths
