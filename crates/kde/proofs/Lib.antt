pub mod Questions
pub mod Raising
pub mod Scores
pub mod Monotone
pub mod Steps
pub mod Estimates
pub mod Points
pub mod Widths
