pub mod Same
pub mod Layouts
pub mod Asking
pub mod Orders
