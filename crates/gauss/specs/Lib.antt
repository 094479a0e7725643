pub mod Elimination
pub mod Solutions
pub mod Inner
