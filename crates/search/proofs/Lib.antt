pub mod Passes
pub mod Tops
pub mod Gathers
