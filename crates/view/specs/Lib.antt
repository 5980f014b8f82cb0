-- What the contracts of the member view cite.
pub mod Views
