-- The number of the member view's answer; those of all other answers are defined with the answers.
pub mod ViewNumber
