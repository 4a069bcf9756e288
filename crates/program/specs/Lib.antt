pub mod Printing
pub mod From
pub mod Host
