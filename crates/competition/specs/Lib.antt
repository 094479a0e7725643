pub mod Tables
pub mod Batches
pub mod Winners
pub mod Borrowed
pub mod Inner
