-- What the walk over a message answers, and what is left of it.
pub mod Walks
pub mod Openings
pub mod Left
pub mod MemberLaws
pub mod OpeningLaws
pub mod LeftLaws
pub mod TurnLaws
