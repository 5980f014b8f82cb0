-- Laws that the proofs of the frost guard cite.
pub mod FrostGiven
pub mod FrostJudged
pub mod FrostLaws
pub mod FrostRows
pub mod FrostPromised
