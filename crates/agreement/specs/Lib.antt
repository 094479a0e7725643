pub mod Demand3
pub mod Checked
pub mod KnownPoints
pub mod Inner
