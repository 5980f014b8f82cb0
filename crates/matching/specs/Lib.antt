-- Whether a new table extends an old one, as tests of rows.
pub mod Matching
pub mod MatchingLaws
