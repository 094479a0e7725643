pub mod Ranking
pub mod Sorted
pub mod Inner
