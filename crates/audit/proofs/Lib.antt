pub mod Laws
pub mod Audited
