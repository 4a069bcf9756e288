pub mod Places
pub mod Cover
pub mod Fitted
pub mod Each
