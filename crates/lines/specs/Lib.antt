pub mod Drafts
pub mod Faults
pub mod Lines
pub mod Replies
pub mod Written
