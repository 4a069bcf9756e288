pub mod Views
pub mod Results
pub mod Steps
pub mod Placed
pub mod Events
pub mod One
