-- Two tables compared, as definitions, and what is promised of it.
pub mod Compare
pub mod CompareDemands
pub mod CompareLaws
pub mod FindLaws
pub mod EqualLaws
pub mod OrderLaws
pub mod StrictLaws
pub mod Promises
