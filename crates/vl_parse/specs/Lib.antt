pub mod Items
pub mod ItemLead
pub mod Faults
pub mod Sources
pub mod Refusals
