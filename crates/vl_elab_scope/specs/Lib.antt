pub mod Contexts
pub mod Divisions
pub mod Seen
pub mod Texts
pub mod Alike
