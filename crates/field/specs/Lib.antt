pub mod Words
pub mod Inspect
pub mod Rehearsals
