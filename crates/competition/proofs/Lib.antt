pub mod Questions
pub mod Slots
pub mod RowSteps
pub mod Slotwise
pub mod Calls
pub mod Batches
