-- What is promised of the season sheet, and its proofs.
pub mod SheetDemands
pub mod Integers
pub mod SheetNumbers
pub mod SheetProofs
pub mod SheetValues
pub mod SheetCounted
pub mod SheetRefusals
pub mod SheetBack
pub mod SheetPromises
