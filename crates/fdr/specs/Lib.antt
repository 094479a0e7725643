pub mod Sides
pub mod SideQValues
pub mod NameQValues
pub mod Inner
