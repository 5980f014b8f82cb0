-- What the contracts of the reader with row records cite.
pub mod Records
