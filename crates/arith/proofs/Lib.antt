pub mod Answer
pub mod Laws
