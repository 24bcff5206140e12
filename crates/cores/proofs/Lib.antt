pub mod Members
pub mod Frees
pub mod Gaps
pub mod Seats
pub mod Steps
pub mod Lawfulness
pub mod Listing
pub mod Lookups
