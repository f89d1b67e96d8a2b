pub mod Graph
pub mod Bits
pub mod Laws
pub mod Gates
