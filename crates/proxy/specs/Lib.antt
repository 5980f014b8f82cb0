-- Parts of a proxy's definition that are functions of their own in the code.
pub mod Parts
