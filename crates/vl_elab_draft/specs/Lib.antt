pub mod Kept
pub mod Linked
pub mod Filled
pub mod Drawn
pub mod Ends
pub mod Written
