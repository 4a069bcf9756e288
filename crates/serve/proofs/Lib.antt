pub mod Serve
pub mod One
