-- What the contracts of `shapes` cite beside the definitions of the encoding.
pub mod Shapes
pub mod ShapesLaws
pub mod FormLaws
