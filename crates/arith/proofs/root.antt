pub mod Limbs
pub mod Units
pub mod Wrap
