pub mod Refusals
pub mod Whole
pub mod Time
pub mod Round
pub mod Root
pub mod RootOf
pub mod Rehearsals
