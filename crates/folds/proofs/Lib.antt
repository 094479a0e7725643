pub mod Tests
pub mod Walks
pub mod Writing
pub mod Stores
pub mod Folds
pub mod Parts
