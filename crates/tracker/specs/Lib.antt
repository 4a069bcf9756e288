pub mod Plan
pub mod Event
