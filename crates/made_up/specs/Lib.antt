pub mod Skipping
pub mod SkippingLaws
