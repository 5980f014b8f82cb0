-- What the contracts of `pairs` cite beside the definitions of the encoding, and its laws.
pub mod Pairs
pub mod PairLaws
pub mod LeftLaws
