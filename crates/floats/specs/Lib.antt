pub mod Constants
pub mod Signs
pub mod Convert
pub mod Whole
pub mod MinMax
pub mod TotalOrder
pub mod Ratio
