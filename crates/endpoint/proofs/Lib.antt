-- Laws that several proofs cite.
pub mod Laws
pub mod Openings
pub mod Writings
pub mod EndpointCases
pub mod EndpointLaws
pub mod OpenRefusals
pub mod RefusalLaws
pub mod Promised
pub mod LayoutLaws
