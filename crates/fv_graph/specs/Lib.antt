pub mod Graph
pub mod Walking
pub mod Walked
