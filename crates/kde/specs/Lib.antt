pub mod Bins
pub mod Estimate
pub mod Tolerances
pub mod LogErrors
pub mod Inner
