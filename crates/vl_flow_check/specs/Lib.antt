pub mod Layouts
pub mod Rows
pub mod Undriven
pub mod Shares
pub mod Earliest
pub mod Doubled
