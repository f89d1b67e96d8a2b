pub mod Rows
pub mod Effect
pub mod Monitors
pub mod Laws
