pub mod ExprRows
pub mod ExprSpelled
pub mod ExprSteps
