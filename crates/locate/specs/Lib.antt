-- An endpoint in its proxy: where it is as definitions, and what is promised of it.
pub mod Locate
pub mod CountLater
pub mod LocateDemands
pub mod ProxyRefusals
pub mod LocateLaws
pub mod LocateCases
pub mod Promises
