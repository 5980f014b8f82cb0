-- Laws that the proofs of the numbers, and of the exported calls, cite.
pub mod Judged
pub mod Numbering
pub mod Numbered
pub mod Viewed
pub mod Dialling
pub mod Planning
