pub mod Lifted
pub mod Read
pub mod Runs
pub mod One
