pub mod Runs
pub mod Searches
pub mod Settled
pub mod Verdicts
pub mod Chosen
pub mod ChosenParts
