-- What the contracts of `table` cite beside the definitions of the encoding.
pub mod Found
pub mod Rows
pub mod Names
pub mod NamesLaws
pub mod Tags
pub mod TagsLaws
