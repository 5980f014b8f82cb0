-- Laws that the proof of `check` cites.
pub mod Telling
