pub mod StmtLead
pub mod Bare
pub mod Statements
pub mod Arms
