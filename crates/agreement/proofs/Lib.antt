pub mod Demand3
pub mod Checked
pub mod PrecursorLine
mod Reading
pub mod KnownPoints
