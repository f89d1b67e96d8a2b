pub mod Answers
pub mod Codes
pub mod Marks
pub mod Resolved
pub mod Sets
pub mod Steps
pub mod Store
pub mod Texts
