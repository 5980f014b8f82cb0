-- The array of agreeing rows.
pub mod Agreeing
