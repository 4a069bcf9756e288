pub mod Record
pub mod Answers
pub mod Events
pub mod Readouts
