pub mod Retirements
pub mod Kept
pub mod Around
pub mod Monitors
