pub mod Steps
pub mod OneCycle
pub mod Halves
pub mod Verdicts
pub mod Laws
pub mod Traces
