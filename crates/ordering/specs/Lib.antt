-- The order of what is compared.
pub mod Ordering
pub mod OrderingLaws
