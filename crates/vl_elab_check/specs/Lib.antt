pub mod Here
pub mod Kinds
pub mod Left
pub mod Ports
pub mod Bare
pub mod Judged
pub mod Standing
