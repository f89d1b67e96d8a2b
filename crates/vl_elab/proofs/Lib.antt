pub mod Counting
pub mod Told
pub mod Drawn
pub mod Deciding
