pub mod Rings
pub mod Laws
pub mod Pairs
pub mod Bytes
pub mod Halving
pub mod Handles
pub mod Covered
