-- Differences put into a lent list.
pub mod Listing
pub mod ListingLaws
