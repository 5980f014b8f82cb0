-- The laws of reading and writing: `Demands` states the promises, `Promises` has them with their proofs.
pub mod Demands
pub mod Lose
pub mod Promises
