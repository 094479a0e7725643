pub mod Later
pub mod Check
