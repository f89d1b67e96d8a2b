pub mod Nexts
pub mod Stores
pub mod Writing
pub mod Begins
pub mod Held
pub mod Next
pub mod Ready
pub mod Phases
