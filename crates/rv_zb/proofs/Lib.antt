pub mod Places
pub mod Unique
pub mod Words
pub mod Effects
pub mod NodeLemmas
