pub mod Goes
pub mod Next
pub mod Lead
pub mod Parts
