-- What the contracts of the converter cite.
pub mod Convert
pub mod Reslice
pub mod Plans
pub mod Demands
pub mod Promises
