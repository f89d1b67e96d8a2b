pub mod Exiting
