-- What the search for an optional answers.
pub mod Located
