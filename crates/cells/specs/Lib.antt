pub mod Cell
pub mod Lent
