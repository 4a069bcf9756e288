pub mod Text
pub mod Going
pub mod Shown
pub mod Chunk
pub mod Whole
pub mod One
pub mod LentTurns
