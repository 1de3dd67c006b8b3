pub mod Drawn
pub mod Ink
