pub mod ClassLemmas
pub mod Bounded
pub mod Shaped
pub mod ShapeWhole
pub mod Going
mod Declared
mod PortDecls
pub mod Hiding
pub mod Knows
pub mod PortClocks
pub mod Stacks
pub mod Standing
pub mod TurnStands
pub mod StandWhole
pub mod Shadowed
