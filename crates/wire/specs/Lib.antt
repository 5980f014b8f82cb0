-- What the code's answers to a reader are, what its writes leave, and laws of both.
pub mod Steps
pub mod StepLaws
pub mod SizeLaws
pub mod At
pub mod Put
pub mod PutLaws
pub mod Row
