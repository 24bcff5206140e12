pub mod Lists
pub mod Openings
pub mod Calls
pub mod Answering
pub mod Ledger
pub mod Scheduler
pub mod Worked
pub mod Theorems
