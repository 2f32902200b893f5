pub mod Over
pub mod Steps
pub mod Piles
pub mod Worked
