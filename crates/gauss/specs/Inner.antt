-- What the loops leave, for the contracts of private functions.
pub mod Rows
