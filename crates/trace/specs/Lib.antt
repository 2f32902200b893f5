pub mod Words
pub mod Piles
pub mod Faults
pub mod Bytes
