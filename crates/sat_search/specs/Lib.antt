pub mod Added
pub mod Ledger
pub mod Order
pub mod Found
pub mod Searching
pub mod Turns
pub mod Ended
pub mod Judging
