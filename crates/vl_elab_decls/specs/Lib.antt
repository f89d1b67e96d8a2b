pub mod Inputs
pub mod Objects
pub mod Shaped
pub mod Forms
pub mod Ports
pub mod Clocks
pub mod Hidden
pub mod Stands
