pub mod Commit
pub mod Turn
