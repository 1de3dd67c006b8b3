pub mod CellCounts
pub mod DigitLaws
pub mod DrawnLaws
pub mod StoredLaws
pub mod InkLaws
