-- What the writer's calls answer of an outcome.
pub mod Tell
