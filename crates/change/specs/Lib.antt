-- What the calls that set and remove an optional answer.
pub mod Planned
pub mod PlannedLaws
