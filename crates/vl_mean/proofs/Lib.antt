pub mod Lookups
pub mod SelectLemmas
pub mod WordLemmas
pub mod Joined
pub mod Making
pub mod Refused
pub mod Sized
pub mod Faulty
