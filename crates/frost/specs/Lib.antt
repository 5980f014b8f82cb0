-- The frost guard as definitions, and what is promised of it.
pub mod Frost
pub mod Code
pub mod FrostDemands
pub mod FrostPromises
