pub mod Precursors
pub mod Inner
