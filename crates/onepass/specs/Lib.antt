-- What the contracts of `onepass` cite besides the definitions of `rules` and `shapes`, and what its callers know.
pub mod Passing
pub mod PassLaws
