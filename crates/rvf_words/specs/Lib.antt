pub mod Table
pub mod Line
