pub mod Sent
pub mod StoreLemmas
