pub mod Chains
pub mod Controls
pub mod Detecting
pub mod Kept
pub mod Acks
pub mod Decided
pub mod Carried
