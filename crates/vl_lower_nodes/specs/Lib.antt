pub mod Near
pub mod Points
