pub mod HalfLemmas
pub mod SpanLemmas
pub mod WordLemmas
