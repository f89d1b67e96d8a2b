pub mod StmtRows
pub mod StmtSpelled
pub mod StmtLeads
pub mod ArmRows
pub mod StmtNodes
