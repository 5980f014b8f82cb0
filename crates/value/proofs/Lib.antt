-- Laws that several proofs cite.
pub mod PlainLaws
pub mod BoolLaws
pub mod Room
pub mod CycleLaws
pub mod QuickLaws
