pub mod Deliveries
pub mod Answering
pub mod Standing
