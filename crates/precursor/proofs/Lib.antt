pub mod Questions
mod Keyed
mod Assigned
mod Joined
