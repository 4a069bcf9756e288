pub mod Drain
pub mod Seek
