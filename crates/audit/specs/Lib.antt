pub mod Total
pub mod Audited
