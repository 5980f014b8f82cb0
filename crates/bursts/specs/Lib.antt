-- Burst plans: the check and the planner as definitions, and what is promised of them.
pub mod Bursts
pub mod Running
pub mod BurstDemands
pub mod BurstPromises
