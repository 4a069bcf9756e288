pub mod View
pub mod Steps
pub mod Answers
pub mod Readouts
