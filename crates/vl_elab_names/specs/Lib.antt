pub mod Known
pub mod Path
pub mod Table
