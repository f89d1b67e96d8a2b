pub mod Machine
pub mod Operators
pub mod Signs
pub mod Grammar
pub mod Text
pub mod Depth
