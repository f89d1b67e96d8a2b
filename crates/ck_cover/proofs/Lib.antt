pub mod Greatest
pub mod Lawfulness
pub mod Channels
