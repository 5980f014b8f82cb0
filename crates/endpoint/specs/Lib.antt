-- One endpoint of a proxy: opening and writing it as definitions, and what is promised of them.
pub mod Endpoint
pub mod Parts
pub mod EndpointDemands
pub mod Layout
pub mod Promises
