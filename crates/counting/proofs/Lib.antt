pub mod Labels
pub mod Lines
pub mod RunningMinimum
pub mod QValues
pub mod Tally
pub mod ColumnPasses
