pub mod Walks
pub mod Lists
pub mod Inner
