pub mod Lists
pub mod Properties
