pub mod Labels
pub mod Lines
pub mod QValues
