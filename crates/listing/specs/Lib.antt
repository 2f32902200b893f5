pub mod Faults
pub mod Steps
pub mod Listing
