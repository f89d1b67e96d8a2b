pub mod Bodies
pub mod Dimacs
