pub mod InLists
pub mod Loops
pub mod CountSums
pub mod Numbers
pub mod TotalsSums
