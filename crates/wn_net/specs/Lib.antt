pub mod Changes
pub mod Given
pub mod Names
pub mod Net
pub mod Next
pub mod Value
pub mod Width
