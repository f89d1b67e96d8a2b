pub mod Maps
pub mod Spots
pub mod Evaluations
pub mod Settled
pub mod Built
pub mod Sources
pub mod Edges
pub mod Graphic
