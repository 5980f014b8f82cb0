-- Forms by their numbers, and what the readers of headers and declared bytes answer.
pub mod Forms
pub mod FormsLaws
pub mod Answers
