pub mod Events
pub mod Failing
pub mod Kept
pub mod Outside
pub mod Sent
pub mod Store
