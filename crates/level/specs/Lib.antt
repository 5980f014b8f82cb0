-- What the readers of one owner's members answer, what rows they put, and laws of both.
pub mod Fill
pub mod FillLaws
pub mod Answers
pub mod AnswersLaws
pub mod TagLaws
pub mod RequiredLaws
pub mod Due
