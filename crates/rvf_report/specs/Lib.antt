pub mod Outcome
pub mod Status
pub mod Reports
pub mod Steps
pub mod Printed
pub mod Faults
pub mod Lines
