pub mod Going
pub mod Lines
