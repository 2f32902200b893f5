pub mod System
pub mod Plain
pub mod Least
