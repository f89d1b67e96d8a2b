pub mod Parts
pub mod Indices
pub mod Started
pub mod Refusing
pub mod Several
pub mod Standing
pub mod Single
pub mod Valued
