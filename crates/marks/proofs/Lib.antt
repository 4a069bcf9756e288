pub mod Split
pub mod SplitLoss
pub mod Lost
pub mod Rings
