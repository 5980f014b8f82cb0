-- Parts of readers that are functions of their own in the code.
pub mod Parts
