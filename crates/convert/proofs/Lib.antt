-- Laws that the proofs cite.
pub mod Growing
pub mod Owning
pub mod Moving
pub mod Answering
pub mod ConvertLaws
pub mod ResliceLaws
pub mod Promised
