pub mod Marks
pub mod Survey
pub mod Store
