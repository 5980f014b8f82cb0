-- One optional of a message set or removed, all else passed on: the definition, and what is promised of it.
pub mod Change
pub mod ChangeDemands
pub mod ChangePromises
pub mod Place
