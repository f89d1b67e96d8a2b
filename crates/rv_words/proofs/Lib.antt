pub mod BitLemmas
pub mod JoinLemmas
pub mod ProductLemmas
pub mod RowLemmas
pub mod WordLemmas
