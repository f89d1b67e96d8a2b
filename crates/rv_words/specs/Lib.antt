pub mod Demands
pub mod Nodes
pub mod Parts
