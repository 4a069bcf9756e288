pub mod Turns
pub mod Printed
pub mod Start
pub mod Input
pub mod Whole
pub mod Lent
