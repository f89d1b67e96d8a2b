pub mod AddedNodes
pub mod AddedRegs
mod Whole
mod Cut
pub mod PortNodes
