pub mod Rows
pub mod Fit
pub mod Scores
pub mod Inner
