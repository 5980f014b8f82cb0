-- Laws for the proofs of the numbers of a sheet.
pub mod Summing
pub mod SumLaws
