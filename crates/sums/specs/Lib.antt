-- The numbers of a season sheet: what a message adds, what 44 and 53 judge, the mean.
pub mod Sums
