pub mod ClauseList
pub mod Clauses
pub mod Trail
pub mod Known
pub mod Sorted
