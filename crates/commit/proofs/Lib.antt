pub mod Storing
pub mod Turns
pub mod Laws
