pub mod FullNames
pub mod Names
pub mod Found
pub mod Flattened
pub mod SameMaps
pub mod StepScopes
pub mod DriverPlaces
pub mod Seen
