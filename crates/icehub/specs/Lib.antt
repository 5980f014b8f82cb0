-- The numbers that the exported calls give.
pub mod TableNumbers
pub mod Numbers
pub mod WriteNumbers
pub mod ChangeNumbers
pub mod ConvertNumbers
pub mod EndpointNumbers
pub mod PlanNumbers
pub mod GuardNumbers
