-- The laws of the definitions of specs/.
pub mod AgainLaws
pub mod EditLaws
pub mod EditNewer
pub mod GapLaws
pub mod HeldLaws
pub mod HereLaws
pub mod MadeLaws
pub mod PieceLaws
pub mod SeatLaws
pub mod SpliceLaws
pub mod TargetLaws
pub mod ChangePromised
