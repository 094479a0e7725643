pub mod Ready
pub mod Keyed
