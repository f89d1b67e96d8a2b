pub mod Laws
pub mod Watches
pub mod Watching
pub mod Propagation
