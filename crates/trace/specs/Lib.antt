pub mod Says
pub mod Reading
pub mod Held
pub mod Put
pub mod Behind
pub mod Padded
