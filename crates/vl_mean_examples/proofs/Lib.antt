pub mod FlatRefused
pub mod Maps
pub mod DesignMaps
pub mod Limits
