pub mod Sorted
mod Placing
mod Merging
mod Joining
mod Halving
pub mod Packed
pub mod Ranks
pub mod Places
pub mod ListKeys
