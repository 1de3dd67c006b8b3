pub mod Ledger
pub mod Conditions
pub mod Exact
pub mod Graphs
pub mod With
pub mod Outcomes
pub mod Cells
pub mod Strokes
