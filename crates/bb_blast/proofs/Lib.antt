pub mod Joining
pub mod Nodes
pub mod Rooting
pub mod Sources
pub mod Walking
