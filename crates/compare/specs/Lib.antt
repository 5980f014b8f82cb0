-- The answer of comparing two tables, and laws of all differences.
pub mod Compared
pub mod PairLaws
