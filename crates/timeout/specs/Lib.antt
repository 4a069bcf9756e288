pub mod Probe
pub mod Loss
pub mod Claim
