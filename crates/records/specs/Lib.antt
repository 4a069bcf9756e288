pub mod View
pub mod Rising
pub mod Probes
