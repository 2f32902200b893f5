pub mod Parts
pub mod Sizes
pub mod Leading
pub mod ByStep
pub mod OverLaws
pub mod Walks
pub mod Small
pub mod Piles
