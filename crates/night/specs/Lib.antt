-- Many messages in one buffer: the definition of the call, and what is promised of it.
pub mod Night
pub mod NightDemands
pub mod NightPromises
pub mod Steps
