pub mod Traces
pub mod Values
